pub mod Header
pub mod Sound
pub mod Packet
pub mod Answer
pub mod Channel
pub mod ChannelRefusal
pub mod Reading
pub mod Worked
