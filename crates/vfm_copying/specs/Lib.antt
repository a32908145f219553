pub mod Copies
pub mod Stale
pub mod Counts
pub mod Lost
pub mod Runs
