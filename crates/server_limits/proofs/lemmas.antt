-- Lemmas of networks, sets of them and the rule between them.
pub mod NetworkText
pub mod Prefixes
pub mod Rule
pub mod Sets
pub mod Tries
pub mod Spelling
