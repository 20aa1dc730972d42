pub mod Elements
pub mod InOrder
pub mod Puts
pub mod Settling
