pub mod WriteCases
pub mod WriteBack
pub mod Examples
