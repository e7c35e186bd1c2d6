-- What a server is, and which replies a request to it gets.
pub mod Alone
pub mod OneReply
pub mod Requests
pub mod Server
