pub mod OneRun
pub mod Order
pub mod Ordered
pub mod Steps
