pub mod Words
pub mod Seats
pub mod Blocked
pub mod Parts
pub mod Pictures
