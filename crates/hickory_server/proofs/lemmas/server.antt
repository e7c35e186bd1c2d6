-- What becomes of messages.
pub mod Above
pub mod BytesServed
pub mod DecodedOutcomes
pub mod Isolation
pub mod Refusals
pub mod Results
pub mod RuleLaws
pub mod Runs
