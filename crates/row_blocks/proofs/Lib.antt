pub mod Placed
pub mod GivenBack
pub mod Owning
