-- Lemmas by the rooms of the code.
pub mod blocklist
pub mod file
pub mod updates
