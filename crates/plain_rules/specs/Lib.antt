pub mod Limits
pub mod Machine
pub mod Reach
pub mod Run
