-- Dynamic updates.
pub mod Updates
