pub mod ReadBack
pub mod Same
pub mod Recompose
pub mod Shortest
pub mod Octets
