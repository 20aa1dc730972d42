pub mod ByRoots
pub mod Lying
pub mod Together
