pub mod Cuts
pub mod Spelling
pub mod Words
