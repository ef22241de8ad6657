pub mod DataCases
pub mod Back
pub mod Examples
