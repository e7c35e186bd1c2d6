pub mod queries
pub mod replies
pub mod representation
pub mod requests
pub mod transfers
pub mod updates
pub mod zones
