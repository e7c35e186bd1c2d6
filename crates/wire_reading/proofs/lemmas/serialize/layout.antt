-- Lemmas of what stands in bytes, and of what a change keeps.
pub mod MessageTail
