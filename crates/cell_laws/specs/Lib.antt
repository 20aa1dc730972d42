pub mod Goes
pub mod Held
pub mod Limits
pub mod Reaps
pub mod Runs
pub mod Takes
