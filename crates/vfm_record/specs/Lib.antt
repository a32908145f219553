pub mod Record
pub mod Tests
pub mod Writing
pub mod Hashing
pub mod Shape
pub mod Packing
