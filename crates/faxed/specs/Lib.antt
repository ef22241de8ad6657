pub mod Events
pub mod Run
pub mod Complete
pub mod Pages
pub mod Session
pub mod Trunks
pub mod Tied
pub mod Examples
