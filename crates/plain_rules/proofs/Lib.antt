pub mod Changing
pub mod Growth
