pub mod Comparing
pub mod Entries
pub mod Sending
