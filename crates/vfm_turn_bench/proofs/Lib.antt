pub mod Workers
pub mod Sends
