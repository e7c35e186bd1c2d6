-- Lemmas of what was written: it stands, keeps the limit and reads back.
pub mod FiveLists
pub mod OneRun
pub mod ReadingBack
pub mod RepliesEncoded
pub mod WrittenAdditionals
pub mod WrittenItems
pub mod WrittenMessage
pub mod WrittenSizes
