pub mod Exact
pub mod Handed
pub mod Intakes
pub mod Pumped
pub mod Readers
