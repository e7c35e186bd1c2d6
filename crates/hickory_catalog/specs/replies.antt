-- Replies by their parts, their signature, and how they reach a sink.
pub mod DecodedReplies
pub mod Replies
pub mod ReplyEdns
pub mod Sending
pub mod Signing
