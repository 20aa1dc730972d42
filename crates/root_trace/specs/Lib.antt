pub mod Missing
pub mod Own
