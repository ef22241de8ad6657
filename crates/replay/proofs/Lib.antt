pub mod Steps
pub mod Ranges
pub mod Sublists
pub mod Replay
pub mod Examples
pub mod Wrong
