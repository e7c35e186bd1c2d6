pub mod Access
pub mod Limits
pub mod NetworkTexts
pub mod Prefixes
pub mod Truncating
pub mod representation
