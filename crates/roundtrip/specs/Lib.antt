pub mod Demand2
pub mod Examples
pub mod Tied
