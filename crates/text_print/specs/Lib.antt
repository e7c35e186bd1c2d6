pub mod Printed
pub mod PrintedData
