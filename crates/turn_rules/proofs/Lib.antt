pub mod Bounds
pub mod Known
pub mod Leaving
pub mod Local
pub mod Names
pub mod Gets
pub mod Places
