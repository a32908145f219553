-- The lemmas of this crate.
pub mod Elements
pub mod Steps
pub mod Taking
pub mod Machines
pub mod Finishing
