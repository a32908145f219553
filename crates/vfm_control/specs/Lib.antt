pub mod Frame
pub mod Pair
pub mod Calls
pub mod Worked
