pub mod server
pub mod store
pub mod zone_handler
