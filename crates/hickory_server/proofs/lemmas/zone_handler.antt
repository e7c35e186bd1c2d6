-- What zones reply and keep.
pub mod KeptZones
pub mod MadeReplies
