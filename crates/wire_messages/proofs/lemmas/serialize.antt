-- Lemmas of values and the bytes that they stand in.
pub mod layout
pub mod reading
pub mod writing
