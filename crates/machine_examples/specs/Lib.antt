pub mod Examples
pub mod FurtherExamples
pub mod InOrder
pub mod RootsExamples
pub mod SmallExamples
