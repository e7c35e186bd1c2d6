-- Domain names: labels and bounds, order, hash and spelling.
pub mod DomainName
pub mod NameOrder
pub mod NameText
