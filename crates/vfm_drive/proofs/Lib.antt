pub mod Runs
pub mod Steps
pub mod Still
pub mod Ends
