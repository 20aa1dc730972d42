pub mod Back
pub mod Entry
pub mod Mapped
pub mod Named
pub mod Span
pub mod Table
