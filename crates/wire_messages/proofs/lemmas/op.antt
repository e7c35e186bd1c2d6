-- Lemmas of the comparison of headers.
pub mod MetadataComparing
