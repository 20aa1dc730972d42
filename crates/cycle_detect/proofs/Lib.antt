pub mod Closing
pub mod Falls
pub mod KeptLemmas
pub mod Settled
pub mod Sums
pub mod Work
