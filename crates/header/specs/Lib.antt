pub mod Header
pub mod Private
