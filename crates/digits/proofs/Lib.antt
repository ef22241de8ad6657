pub mod LayoutCases
pub mod LayoutBack
pub mod Numbers
