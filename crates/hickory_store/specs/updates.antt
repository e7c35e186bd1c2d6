-- Zones that take dynamic updates (RFC 2136).
pub mod Changes
pub mod Identity
pub mod NameUpdates
pub mod Permission
pub mod Prerequisites
pub mod Prescan
pub mod Refusals
pub mod Replays
pub mod Serials
pub mod StandsAfter
pub mod TransferAnswers
pub mod UpdatableZone
pub mod UpdateAnswers
pub mod UpdateLaws
pub mod WorkedChanges
pub mod WorkedUpdates
