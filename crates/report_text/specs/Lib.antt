pub mod Ends
pub mod Parts
pub mod Refusals
pub mod Reports
pub mod WhyLines
