-- Zones that were updated.
pub mod UpdatedZones
