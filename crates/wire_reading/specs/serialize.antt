-- Values and the bytes that they stand in.
pub mod layout
pub mod reading
