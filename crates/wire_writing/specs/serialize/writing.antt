-- What bytes may be written of a reply, and how long they are.
pub mod OwnerNames
pub mod WholeReply
pub mod Writing
