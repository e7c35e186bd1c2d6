pub mod LocationText
pub mod ServiceText
