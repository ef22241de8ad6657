pub mod Listed
pub mod Packing
