pub mod Sender
pub mod SenderClaims
pub mod Examples
