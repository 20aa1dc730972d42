pub mod Causes
pub mod Headline
pub mod Inner
