pub mod Sender
pub mod Claims
