pub mod Begins
pub mod Inputs
pub mod Streams
