pub mod Words
pub mod Heads
pub mod Decoding
pub mod Packets
pub mod Channels
pub mod Readings
