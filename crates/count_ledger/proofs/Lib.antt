pub mod Adding
pub mod Mailed
pub mod Said
pub mod Seated
