-- The lemmas of this crate.
pub mod Counting
pub mod Weaving
pub mod SameFaults
pub mod Told
