pub mod Sent
pub mod Packets
pub mod Whole
pub mod Loaded
pub mod Judged
pub mod Verdict
pub mod Brought
