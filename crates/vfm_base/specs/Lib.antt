pub mod Least
pub mod PageSet
pub mod Words
pub mod Tests
