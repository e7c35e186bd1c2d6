-- How the code keeps its values, and what its steps leave: words of proofs, which no reader of the claims needs.
pub mod PreparedZones
pub mod ReplyAtOnce
