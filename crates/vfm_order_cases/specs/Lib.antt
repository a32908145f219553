pub mod Along
pub mod Ordered
