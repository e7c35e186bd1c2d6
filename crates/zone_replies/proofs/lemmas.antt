-- Lemmas by the rooms of the code.
pub mod replies
