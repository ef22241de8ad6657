pub mod Listing
pub mod Stream
pub mod Claims
pub mod Private
