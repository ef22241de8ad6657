pub mod Fax
pub mod Claims
