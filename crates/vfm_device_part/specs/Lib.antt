pub mod DeviceSteps
pub mod Part
pub mod PartWrites
pub mod Pick
