pub mod Places
pub mod Taken
pub mod Refused
pub mod Examples
