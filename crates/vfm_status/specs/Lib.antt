pub mod Number
pub mod StatusText
