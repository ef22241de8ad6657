pub mod Cases
pub mod Yields
pub mod Parts
pub mod OneAnswer
