pub mod Waiting
pub mod Buffers
