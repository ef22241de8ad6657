pub mod Listings
pub mod SubsTurns
pub mod StreamTurns
pub mod Pieces
pub mod Examples
