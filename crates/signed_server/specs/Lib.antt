pub mod KeyedServers
pub mod Placeholders
pub mod ServedWithKeys
pub mod SharedReplies
pub mod SignedAnswers
pub mod SignedLaws
