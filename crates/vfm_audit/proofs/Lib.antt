pub mod Making
pub mod Audits
pub mod Joints
pub mod Printed
