-- Lemmas by the rooms of the code.
pub mod rr
pub mod values
