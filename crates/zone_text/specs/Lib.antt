pub mod Included
pub mod Numbered
pub mod ZoneFaults
pub mod ZoneFiles
