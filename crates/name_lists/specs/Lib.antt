pub mod Adding
pub mod Counts
pub mod Gives
pub mod Names
pub mod Pushes
pub mod Words
