pub mod Writers
pub mod Buffered
pub mod BufferedLaws
pub mod Prints
pub mod Parts
pub mod Hashed
