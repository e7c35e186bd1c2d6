pub mod Hosts
pub mod Notifying
pub mod TargetTexts
