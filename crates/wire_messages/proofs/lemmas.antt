-- Lemmas by the rooms of the code.
pub mod op
pub mod rr
pub mod serialize
