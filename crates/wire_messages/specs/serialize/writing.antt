-- What bytes may be written of a reply, and how long they are.
pub mod FullForm
pub mod QuestionForm
pub mod RecordSize
pub mod Reply
pub mod ReplyRanges
