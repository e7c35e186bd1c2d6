-- Lemmas of what was written: it stands, keeps the limit and reads back.
pub mod Chained
pub mod CompressedData
pub mod CompressedForms
pub mod FirstPlaces
pub mod FormLengths
pub mod FullForms
pub mod LinkedNotes
pub mod Lookups
pub mod NameSteps
pub mod NotedRuns
pub mod QuestionEnds
pub mod QuestionSteps
pub mod QuestionsMoved
pub mod RecordLists
pub mod StoredNotes
pub mod WholeLists
pub mod WritingFaults
