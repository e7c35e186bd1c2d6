-- How values stand in bytes, as relations.
pub mod Bytes
