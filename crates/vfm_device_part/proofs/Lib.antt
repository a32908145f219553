-- The lemmas of this crate.
pub mod Shapes
pub mod Engines
pub mod Completed
pub mod Deliveries
pub mod Struck
pub mod Picks
pub mod AllowedSteps
pub mod Entries
pub mod MoveFits
