-- Zones of records.
pub mod FirstRecords
pub mod RecordZones
