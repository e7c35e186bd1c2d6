-- Lemmas on answers.
pub mod NsecRanges
pub mod NsecsInOrder
pub mod ShownCases
pub mod ShownNames
pub mod ShownSetsProved
pub mod WorkedShown
pub mod ZoneAnswersShown
