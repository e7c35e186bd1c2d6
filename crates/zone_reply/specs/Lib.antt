pub mod Answers
pub mod Command
