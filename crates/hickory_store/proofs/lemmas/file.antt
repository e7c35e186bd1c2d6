-- Records that make a zone.
pub mod FirstRecords
pub mod RecordZones
pub mod SetsOfRecords
