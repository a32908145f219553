pub mod Hands
pub mod Group
pub mod Outcome
pub mod Started
pub mod Seat
pub mod CellList
pub mod Rooms
pub mod Closed
