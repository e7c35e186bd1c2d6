pub mod Handled
pub mod Replies
pub mod WorkedReplies
pub mod representation
