pub mod Streams
pub mod Causes
pub mod Given
pub mod Intakes
pub mod Parts
pub mod Finished
pub mod Verdicts
