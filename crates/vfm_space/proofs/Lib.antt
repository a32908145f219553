-- The lemmas of this crate.
pub mod Marks
pub mod OfParts
