-- Resource records: their data, addresses in them, when two records are the same, and the keys of their sets.
pub mod domain
