pub mod Labels
pub mod Texts
pub mod Visible
