-- What bytes may be written of a reply, and how long they are.
pub mod Decoding
pub mod Encoder
pub mod OneRun
pub mod ReadingBack
pub mod ReplyParts
