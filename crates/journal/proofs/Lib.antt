pub mod CrashLemmas
pub mod Entries
pub mod FileLemmas
pub mod Files
pub mod Owed
pub mod Pairs
pub mod Recovery
pub mod Steps
