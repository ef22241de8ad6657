pub mod Halves
pub mod Samples
pub mod LayoutCases
pub mod LayoutBack
