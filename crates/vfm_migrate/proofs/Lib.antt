-- The lemmas of this crate.
pub mod Links
pub mod Offers
pub mod Stagings
pub mod Answering
pub mod Hearing
pub mod SaidAndHeard
pub mod GoneHome
pub mod Migrated
