pub mod Tables
pub mod ChannelCases
pub mod PlaceCases
pub mod EnterCases
