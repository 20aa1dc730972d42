pub mod Drawing
pub mod Exits
