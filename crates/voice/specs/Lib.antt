pub mod Voice
pub mod Private
pub mod Claims
