mod Gone
mod Marks
mod Spans
pub mod Steps
mod Untold
