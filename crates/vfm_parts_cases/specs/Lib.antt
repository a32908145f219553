pub mod Follows
pub mod ForgottenFields
