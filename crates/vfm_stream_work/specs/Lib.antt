pub mod Parcels
pub mod Workers
