pub mod Trunk
pub mod Claims
