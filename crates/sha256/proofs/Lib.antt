pub mod Choice
pub mod Lanes
pub mod Pieces
pub mod Rounds
