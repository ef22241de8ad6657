pub mod HandingCases
pub mod Examples
