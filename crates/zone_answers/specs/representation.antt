-- How the code keeps its values, and what its steps leave: words of proofs, which no reader of the claims needs.
pub mod ChainEnds
pub mod Features
pub mod FoundRecords
pub mod Grown
pub mod Indexes
pub mod KeysBeside
pub mod TopCuts
