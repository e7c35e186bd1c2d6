-- Lemmas by the rooms of the code.
pub mod serialize
pub mod worked
