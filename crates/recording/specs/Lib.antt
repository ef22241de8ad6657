pub mod Pieces
pub mod Stream
pub mod Walk
pub mod Input
pub mod Claims
