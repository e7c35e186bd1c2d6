-- How the code keeps its values, and what its steps leave: words of proofs, which no reader of the claims needs.
pub mod Endings
pub mod NameTable
pub mod Noted
pub mod QuestionNames
pub mod WritingByNotes
pub mod WrittenParts
