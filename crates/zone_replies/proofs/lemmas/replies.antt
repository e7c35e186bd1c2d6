-- Replies, and the answers that they end in.
pub mod AtOnce
pub mod Finished
pub mod Handling
pub mod OneChain
pub mod OneReply
pub mod Referred
