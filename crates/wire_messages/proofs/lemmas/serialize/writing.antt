-- Lemmas of what was written: it stands, keeps the limit and reads back.
pub mod OctetLengths
