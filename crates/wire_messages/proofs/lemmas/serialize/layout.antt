-- Lemmas of what stands in bytes, and of what a change keeps.
pub mod Additional
pub mod ByteTexts
pub mod FormKeeps
pub mod HeaderBits
pub mod LabelBounds
pub mod Ranges
pub mod Stable
pub mod Stands
pub mod VectorBytes
