pub mod Pairs
pub mod Hashing
pub mod Found
pub mod Again
pub mod Answered
pub mod Writable
