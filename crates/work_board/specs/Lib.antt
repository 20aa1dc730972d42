pub mod Answered
pub mod Troubled
