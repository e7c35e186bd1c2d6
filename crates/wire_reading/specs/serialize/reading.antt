-- What is read of bytes, and the first fault of those that cannot be read.
pub mod MessageFaults
pub mod MessageReading
pub mod OptReading
pub mod RecordFaults
