pub mod HexLines
pub mod representation
pub mod rr
pub mod serialize
pub mod text
