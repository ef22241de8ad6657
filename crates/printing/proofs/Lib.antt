pub mod Spelling
pub mod Appending
pub mod Digits
