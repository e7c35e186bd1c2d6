-- What a server replies from its zones, and what these keep.
pub mod KeptZones
pub mod ZoneReplies
