pub mod blocklist
pub mod file
pub mod representation
pub mod updates
