-- Lemmas of records that iterators give, and of the replies that they make.
pub mod LentReplies
pub mod RecordSlices
