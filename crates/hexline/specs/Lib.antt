pub mod Hex
pub mod Line
