-- How values stand in bytes, as relations.
pub mod FieldRanges
pub mod HeaderLayout
pub mod MessageLayout
pub mod NameLayout
pub mod QuestionLayout
pub mod RecordLayout
