-- What names enclose, their first labels, and the labels of wildcards.
pub mod EnclosedBetween
pub mod Enclosers
pub mod Fronts
pub mod WildcardLabels
