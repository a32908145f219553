-- The lemmas of this crate.
pub mod Chunks
pub mod ClosedRecords
pub mod Grown
pub mod Numbered
pub mod Gaps
pub mod Standing
pub mod Streams
pub mod LanesJoin
pub mod Costs
pub mod Bringing
