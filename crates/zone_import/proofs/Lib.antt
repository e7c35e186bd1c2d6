pub mod SameLists
pub mod Kept
