pub mod Here
mod FirstObject
mod Loads
