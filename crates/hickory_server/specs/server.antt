-- What becomes of messages, by the rules of a server.
pub mod Above
pub mod DecodedOutcomes
pub mod Fitted
pub mod FormErrors
pub mod Isolation
pub mod Ruling
pub mod Sending
pub mod ServedBy
pub mod ServedLaws
pub mod Serving
pub mod Written
