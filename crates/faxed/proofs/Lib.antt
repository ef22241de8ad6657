pub mod Runs
pub mod Payloads
pub mod Complete
pub mod Pages
pub mod Session
pub mod Trunks
pub mod Tied
pub mod Examples
