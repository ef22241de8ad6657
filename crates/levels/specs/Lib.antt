pub mod Level
pub mod Claims
