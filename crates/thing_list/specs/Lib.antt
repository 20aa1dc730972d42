pub mod Listed
pub mod Putting
