pub mod Tagged
pub mod Working
