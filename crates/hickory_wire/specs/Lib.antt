pub mod serialize
pub mod worked
