pub mod Counted
pub mod OwnRules
pub mod Results
pub mod Runs
pub mod Streams
pub mod Whole
pub mod WorkedRuns
pub mod Written
