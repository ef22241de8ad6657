pub mod OpeningTurns
pub mod OpeningList
pub mod Chain
pub mod Numbered
