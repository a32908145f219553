pub mod Lists
pub mod Logs
pub mod Keeps
pub mod Tickets
pub mod Calls
pub mod Runs
pub mod Closes
pub mod Sends
