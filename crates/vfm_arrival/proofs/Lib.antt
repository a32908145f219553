-- The lemmas of this crate.
pub mod Fronts
pub mod AllChannels
pub mod AnyOrder
