pub mod Going
pub mod Refused
