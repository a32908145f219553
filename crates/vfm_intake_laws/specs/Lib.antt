pub mod Arrivals
pub mod Doubles
pub mod Prefixes
pub mod Refused
