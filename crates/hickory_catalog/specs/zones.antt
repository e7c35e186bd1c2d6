-- Zones by name, and the one that answers for a name.
pub mod Find
pub mod Kept
pub mod Lending
pub mod Zones
