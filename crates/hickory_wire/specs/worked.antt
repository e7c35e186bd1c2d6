-- Worked examples, by hand from the RFCs.
pub mod Worked
pub mod WorkedLists
pub mod WorkedPointers
pub mod WorkedReplies
