pub mod ReceiverCases
pub mod Older
pub mod Examples
