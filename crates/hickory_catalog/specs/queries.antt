-- What the handlers of a zone answer to a query, and which replies it gets.
pub mod Authoritative
pub mod AuthoritativeLaws
pub mod DenialRecords
pub mod Forwarded
pub mod ForwardedLaws
pub mod Queries
pub mod Transcripts
