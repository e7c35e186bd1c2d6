pub mod ChainedZones
pub mod CheckedZones
pub mod Findings
pub mod HashedZones
pub mod Indexes
pub mod Serials
pub mod SignedZones
