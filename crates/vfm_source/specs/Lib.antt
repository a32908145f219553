pub mod Moving
pub mod Source
pub mod Rounds
pub mod Offers
pub mod Refusals
