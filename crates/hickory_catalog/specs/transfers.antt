-- Transfers of whole zones.
pub mod TransferLaws
pub mod Transfers
pub mod WholeTransfers
