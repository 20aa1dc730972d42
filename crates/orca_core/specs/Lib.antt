pub mod Firsts
pub mod Laws
pub mod Left
pub mod Machine
