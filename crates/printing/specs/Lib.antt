pub mod Decimal
pub mod Hex
pub mod Field
pub mod Refused
pub mod Room
pub mod Claims
