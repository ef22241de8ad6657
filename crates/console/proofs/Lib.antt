pub mod Keys
pub mod Kept
pub mod Decoding
