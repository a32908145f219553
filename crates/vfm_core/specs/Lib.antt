pub mod CoreState
pub mod Delivered
pub mod Split
pub mod Machines
pub mod Loaded
pub mod Copied
