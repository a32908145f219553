-- The lemmas of this crate.
pub mod FormFault
pub mod BarSizes
