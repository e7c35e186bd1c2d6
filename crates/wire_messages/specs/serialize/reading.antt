-- What is read of bytes, and the first fault of those that cannot be read.
pub mod Cursor
pub mod NameReading
pub mod OptionReading
pub mod Reading
pub mod RecordReading
pub mod SectionReading
