pub mod Faults
pub mod Items
pub mod Kinds
pub mod Reading
pub mod Table
pub mod Text
pub mod Words
