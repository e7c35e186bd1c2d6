-- Zones in the order of names.
pub mod Alone
pub mod EnclosedBetween
pub mod LastUpTo
pub mod LentChains
pub mod Lookups
pub mod Nearest
pub mod OneAnswer
pub mod PlacesInOrder
pub mod RequestsToZones
