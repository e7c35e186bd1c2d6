-- Lemmas of values and the bytes that they stand in.
pub mod writing
