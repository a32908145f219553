pub mod Blocks
pub mod BlocksOfParts
