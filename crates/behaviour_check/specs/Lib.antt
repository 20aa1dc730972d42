pub mod Keeps
pub mod Numbers
pub mod Operands
pub mod Rules
