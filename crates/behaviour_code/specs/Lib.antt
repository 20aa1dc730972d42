pub mod Find
pub mod Names
pub mod Opcodes
pub mod Operands
pub mod WellFormed
