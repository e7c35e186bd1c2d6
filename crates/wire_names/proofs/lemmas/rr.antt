-- Lemmas of addresses and of the comparison of records.
pub mod domain
