pub mod Marked
pub mod Plan
