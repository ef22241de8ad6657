pub mod Rule
pub mod Periods
pub mod Claims
pub mod Examples
pub mod Wrong
