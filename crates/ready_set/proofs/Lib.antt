mod Unchanged
pub mod NextBits
pub mod NextOff
pub mod Least
pub mod NextWords
pub mod Summaries
pub mod Words
