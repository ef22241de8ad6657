pub mod Line
pub mod Text
pub mod Back
pub mod Claims
