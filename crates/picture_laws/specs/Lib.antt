pub mod Alphabet
pub mod Applying
pub mod Example
pub mod Runs
pub mod Sums
pub mod Touched
