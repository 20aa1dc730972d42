pub mod Entries
pub mod Leaving
pub mod Texts
