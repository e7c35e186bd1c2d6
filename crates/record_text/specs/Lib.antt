pub mod Groups
pub mod Mnemonics
pub mod Moments
pub mod Prefixes
pub mod RecordText
pub mod TypeBitmaps
pub mod TypeTable
