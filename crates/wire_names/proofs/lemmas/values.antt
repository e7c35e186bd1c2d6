-- Lemmas of bytes that are compared eight at a time.
pub mod SameBytes
