pub mod Generated
pub mod Sums
pub mod Still
pub mod Orders
pub mod Variants
