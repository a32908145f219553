pub mod Encoded
pub mod Decoded
pub mod Digests
pub mod Keeping
pub mod Histories
pub mod Calls
