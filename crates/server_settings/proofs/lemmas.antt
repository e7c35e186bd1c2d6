pub mod Putting
pub mod Lines
pub mod Refused
pub mod Strings
pub mod Names
