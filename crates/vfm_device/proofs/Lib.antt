-- The lemmas of this crate.
pub mod OnBus
pub mod Sought
pub mod NextRequest
pub mod Turns
pub mod Kept
pub mod OfParts
pub mod Jobs
