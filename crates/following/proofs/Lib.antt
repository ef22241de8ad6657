pub mod Lines
pub mod Turns
pub mod StreamTurns
pub mod Examples
pub mod Pieces
