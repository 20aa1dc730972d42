pub mod Commuting
pub mod Untouched
