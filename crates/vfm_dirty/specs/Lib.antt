pub mod LogState
pub mod LogOfParts
