pub mod Acting
pub mod Detecting
mod Events
pub mod Going
pub mod Leaving
mod Lists
pub mod Noting
mod Runs
pub mod Seats
pub mod Told
pub mod Tokens
