pub mod Commands
pub mod FaxCases
pub mod MadeReads
pub mod ReadMakes
pub mod Examples
