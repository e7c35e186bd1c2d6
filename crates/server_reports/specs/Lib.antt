pub mod Counting
pub mod Exposition
pub mod QueryLines
pub mod QueryLogs
