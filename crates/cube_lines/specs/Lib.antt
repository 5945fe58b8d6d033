pub mod Parts
pub mod Pieces
