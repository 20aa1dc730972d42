pub mod Books
pub mod Progress
pub mod Reading
pub mod Splits
