pub mod SidCases
pub mod SidBack
