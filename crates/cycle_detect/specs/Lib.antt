pub mod Falling
pub mod Kept
pub mod Notes
pub mod Room
pub mod Sums
pub mod Worklist
