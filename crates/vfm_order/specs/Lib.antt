pub mod LookAfter
pub mod Coordinator
pub mod Alike
