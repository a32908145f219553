pub mod Taken
pub mod After
pub mod Wholes
