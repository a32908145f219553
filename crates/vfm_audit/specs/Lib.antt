pub mod Audit
pub mod Steps
pub mod Audited
pub mod FoundIn
