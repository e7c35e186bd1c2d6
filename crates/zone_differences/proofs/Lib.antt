pub mod Applying
pub mod Compared
pub mod Naming
pub mod Staying
pub mod Following
pub mod Leading
pub mod Recorded
