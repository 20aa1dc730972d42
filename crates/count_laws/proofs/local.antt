pub mod Cleaning
pub mod Local
pub mod Locals
pub mod NoSelf
