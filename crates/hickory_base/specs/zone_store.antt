-- The records of a zone, what is asked of it, and what it answers.
pub mod Denials
pub mod Eithers
pub mod Lookups
pub mod RecordLists
pub mod RecordSets
pub mod Serials
pub mod ZoneAnswers
pub mod ZoneRecords
pub mod ZoneSets
