pub mod Blocks
pub mod First
pub mod Once
pub mod Raising
pub mod Steps
