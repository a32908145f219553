pub mod Own
pub mod Deliveries
pub mod Groups
