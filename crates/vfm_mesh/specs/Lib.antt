pub mod Feeds
pub mod Rows
pub mod Meshes
