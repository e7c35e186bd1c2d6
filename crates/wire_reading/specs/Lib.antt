pub mod representation
pub mod serialize
