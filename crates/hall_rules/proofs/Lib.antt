pub mod Entries
pub mod Firsts
pub mod Fitting
pub mod Keeping
pub mod Leading
pub mod Refusing
pub mod Sending
pub mod Telling
