pub mod Pending
pub mod Places
pub mod Sound
pub mod Steps
pub mod Effects
