-- Lists of blocked names.
pub mod AddedLists
pub mod BlockAnswers
pub mod Blocked
pub mod ConfigSameness
pub mod Entries
pub mod ListLines
pub mod ListReports
pub mod Readers
