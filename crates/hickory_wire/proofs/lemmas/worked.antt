-- Lemmas of bytes that are written out.
pub mod LiteralReplies
pub mod Literals
