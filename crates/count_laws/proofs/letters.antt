pub mod Named
pub mod Once
pub mod OwnLetters
pub mod Reached
pub mod Shares
