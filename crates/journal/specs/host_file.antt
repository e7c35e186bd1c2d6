-- A file of whoever owns it: what it holds, what its owner is to do, and what a crash leaves of that.
pub mod Answers
pub mod Calls
pub mod Crashes
pub mod FileState
pub mod Reads
pub mod Steps
