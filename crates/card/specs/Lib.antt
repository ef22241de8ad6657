pub mod Handing
pub mod Private
