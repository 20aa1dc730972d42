pub mod One
pub mod Fresh
