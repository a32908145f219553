pub mod Steps
pub mod Elements
pub mod Parsed
pub mod HexText
pub mod SizesTogether
