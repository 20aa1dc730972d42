pub mod Places
pub mod Rows
pub mod Blocks
pub mod Vectors
pub mod Telling
pub mod Standing
