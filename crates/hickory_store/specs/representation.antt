-- How the code keeps and changes its sets: words of proofs, which no reader of the claims needs.
pub mod Digests
pub mod LendingZone
pub mod SetChanges
pub mod SetsByRecord
pub mod ZoneSets
