pub mod Bringing
pub mod Changing
pub mod Indexing
pub mod Lying
pub mod Naming
pub mod Telling
