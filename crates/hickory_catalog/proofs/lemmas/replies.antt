-- Replies, and how they reach a sink.
pub mod DecodedReplies
pub mod RepliesFit
pub mod RepliesToRequests
pub mod SentInOrder
pub mod SentReplies
