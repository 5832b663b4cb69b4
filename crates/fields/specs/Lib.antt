pub mod Pieces
pub mod Walked
