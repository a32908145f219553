-- The lemmas of this crate.
pub mod NumbersWhere
pub mod PageWords
pub mod LeastPages
pub mod NumbersInBytes
