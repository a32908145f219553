-- The lemmas of this crate.
pub mod Staging
pub mod Weights
pub mod Emptying
pub mod Hearing
pub mod Weighing
pub mod Telling
pub mod Deciding
pub mod Taking
pub mod Going
pub mod Sending
pub mod Indexed
pub mod Loading
pub mod Reading
pub mod Together
