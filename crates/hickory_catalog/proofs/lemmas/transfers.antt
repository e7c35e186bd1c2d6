-- Transfers in runs of records.
pub mod Runs
pub mod TransferReplies
pub mod TransfersFromPlace
