pub mod Blocked
pub mod Driven
