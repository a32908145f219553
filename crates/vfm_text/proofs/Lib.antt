pub mod Parts
pub mod Flushing
pub mod PartsInOrder
pub mod Printing
pub mod Pieces
