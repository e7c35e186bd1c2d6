pub mod Adapting
pub mod AddedNames
pub mod Hosts
pub mod ListedNames
pub mod NameLines
pub mod OneList
pub mod Splitting
pub mod Taking
