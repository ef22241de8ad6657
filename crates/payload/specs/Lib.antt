pub mod Layout
pub mod Content
pub mod Claims
