-- Lemmas by the rooms of the claims.
pub mod queries
pub mod replies
pub mod transfers
pub mod updates
pub mod zones
