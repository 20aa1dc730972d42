pub mod Frames
pub mod Laws
pub mod Segment
