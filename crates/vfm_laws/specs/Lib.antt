pub mod Queues
pub mod Standing
pub mod Faults
pub mod Runs
pub mod Facts
