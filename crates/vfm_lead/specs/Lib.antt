pub mod LeadSteps
pub mod Shown
