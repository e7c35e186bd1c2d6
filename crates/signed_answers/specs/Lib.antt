pub mod LentDenials
pub mod LentSets
pub mod NsecSets
pub mod ShownSets
pub mod Signatures
pub mod WorkedZone
pub mod ZoneAnswers
