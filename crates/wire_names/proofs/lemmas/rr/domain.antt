-- Lemmas of labels, their order, their wire form and their spelling.
pub mod Ends
pub mod FirstLabel
pub mod KeyWords
pub mod LabelOrder
pub mod NameSpelling
pub mod OrderKeys
pub mod OrderWords
pub mod PaddedBytes
pub mod SameNames
pub mod SharedEnds
pub mod TextForm
pub mod WireForm
