pub mod Faults
pub mod First
pub mod Objects
pub mod Ready
pub mod State
pub mod Things
pub mod Undo
