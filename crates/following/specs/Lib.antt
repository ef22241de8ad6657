pub mod Following
pub mod Stream
pub mod Private
pub mod Claims
