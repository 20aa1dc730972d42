pub mod Needs
pub mod ObjectsAtQuiet
