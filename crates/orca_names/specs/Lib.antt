pub mod Codes
pub mod Halves
pub mod Names
pub mod Places
