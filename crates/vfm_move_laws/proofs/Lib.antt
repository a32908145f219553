-- The lemmas of this crate.
pub mod AfterAbort
pub mod OutwardArcs
pub mod FailedArcs
