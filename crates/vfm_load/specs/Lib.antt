pub mod Stored
pub mod Stores
pub mod Parts
pub mod Loads
