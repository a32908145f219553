pub mod PartOf
pub mod Made
