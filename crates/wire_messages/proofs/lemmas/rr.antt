-- Lemmas of addresses and of the comparison of records.
pub mod AddressOctets
pub mod RecordComparing
