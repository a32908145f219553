pub mod Holds
pub mod Turns
pub mod GroupHands
pub mod Coordinators
pub mod Seats
pub mod CellLists
pub mod Closings
pub mod Closes
