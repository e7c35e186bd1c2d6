pub mod Failures
pub mod representation
pub mod requests
pub mod responses
pub mod zone_store
