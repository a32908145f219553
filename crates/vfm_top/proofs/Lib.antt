pub mod Causes
pub mod Forms
pub mod Outcomes
pub mod Loads
pub mod Audits
pub mod Paths
pub mod Parts
pub mod Promises
