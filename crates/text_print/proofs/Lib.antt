mod Addresses
mod Behind
mod Names
mod PrintedFields
pub mod Reading
mod Simple
mod Spelled
mod Standing
mod Types
mod Wholes
