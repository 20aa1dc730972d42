pub mod Exactly
pub mod Following
