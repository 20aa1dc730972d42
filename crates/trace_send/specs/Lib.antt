pub mod Blocks
pub mod Can
pub mod Lacking
pub mod Room
