pub mod Firsts
pub mod Going
pub mod Indexing
pub mod Undoing
