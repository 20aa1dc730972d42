pub mod Acknowledged
pub mod AllFacts
pub mod Bounds
pub mod Freed
pub mod Laws
pub mod Reaps
pub mod Untold
pub mod Work
