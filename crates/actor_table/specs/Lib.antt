pub mod Bringing
pub mod Changes
pub mod Codes
pub mod Index
pub mod Rounds
pub mod Slots
pub mod Telling
