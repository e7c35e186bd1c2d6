-- Zones that are read of text.
pub mod ZoneOfText
