pub mod Device
pub mod Memory
pub mod Meeting
pub mod Pieces
