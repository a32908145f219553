pub mod ByDevice
pub mod Sets
pub mod LeadSets
pub mod Changed
pub mod Filled
pub mod ShownList
