pub mod Replay
pub mod Private
pub mod Claims
pub mod Examples
