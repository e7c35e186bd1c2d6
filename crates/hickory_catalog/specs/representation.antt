-- How the code searches and counts: words of proofs, which no reader of the claims needs.
pub mod Runs
pub mod Search
