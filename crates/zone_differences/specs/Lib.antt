pub mod Differences
pub mod Histories
pub mod Sequences
pub mod Standing
pub mod Versions
