-- Replies, and what a sink has of them.
pub mod EncodingSinks
pub mod Responses
pub mod Sinks
