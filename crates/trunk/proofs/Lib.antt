pub mod Cases
pub mod Leaves
