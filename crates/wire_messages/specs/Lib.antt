pub mod Numbers
pub mod op
pub mod rr
pub mod serialize
