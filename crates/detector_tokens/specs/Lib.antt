pub mod Marks
pub mod Open
pub mod Room
