-- Lemmas by the rooms of the code.
pub mod names
pub mod replies
pub mod zones
