-- Lemmas by the rooms of the code.
pub mod ResultMaps
pub mod requests
pub mod responses
pub mod zone_store
