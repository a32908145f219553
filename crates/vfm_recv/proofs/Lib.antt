pub mod Gathering
pub mod Stands
pub mod Endings
pub mod Received
pub mod Outs
