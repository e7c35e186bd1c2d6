-- Lemmas of the sets of a zone under their keys.
pub mod Boxes
pub mod DistinctRecords
pub mod KeyOrder
pub mod SharedSets
pub mod SoaAsked
pub mod StoredSets
pub mod ZoneByName
