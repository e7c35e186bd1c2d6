pub mod Messages
pub mod Schedule
pub mod Worked
