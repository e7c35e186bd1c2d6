-- Lemmas on names and chains.
pub mod EnclosedBetween
pub mod HashGroups
pub mod HashedZone
pub mod Members
pub mod NsecChains
pub mod NsecSound
pub mod NsecsAmong
pub mod Nsec3Chains
pub mod Nsec3Sound
pub mod SignedZones
pub mod SignedZones3
pub mod SmallZone
pub mod WorkedReplies
