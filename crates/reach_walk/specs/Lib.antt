pub mod Dense
pub mod Flat
pub mod MarkLaws
pub mod Marks
pub mod Met
pub mod Reach
pub mod Rows
pub mod Walk
