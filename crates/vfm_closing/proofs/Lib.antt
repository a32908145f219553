pub mod Parts
pub mod Pieces
pub mod Room
pub mod Sizes
