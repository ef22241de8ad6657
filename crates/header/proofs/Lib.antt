pub mod HeaderCases
pub mod HeaderRead
pub mod HeaderInverse
