pub mod SenderCases
pub mod SenderBack
pub mod Examples
pub mod SentExactly
