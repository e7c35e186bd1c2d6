-- Chains of handlers, and the replies to queries.
pub mod ChainsFromPlace
pub mod ConsultedFromPlace
pub mod ForwardedReplies
pub mod KeptRecords
pub mod OneHandler
pub mod OneReply
pub mod QueryReplies
