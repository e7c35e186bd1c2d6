-- Lemmas by the rooms of the code.
pub mod server
pub mod zone_handler
