pub mod Sid
pub mod Claims
