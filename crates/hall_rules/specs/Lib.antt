pub mod Answers
pub mod Causes
pub mod Claims
pub mod Entering
pub mod Facts
pub mod Halls
pub mod Kept
