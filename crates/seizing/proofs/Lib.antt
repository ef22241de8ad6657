pub mod SenderCases
pub mod QuietRun
pub mod SenderBack
pub mod Examples
