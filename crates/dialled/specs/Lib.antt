pub mod Receiver
pub mod Claims
pub mod Examples
