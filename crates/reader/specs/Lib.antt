pub mod Piece
pub mod Added
pub mod Outcome
pub mod Bridge
pub mod Ranks
pub mod Filled
pub mod Ending
pub mod Chosen
