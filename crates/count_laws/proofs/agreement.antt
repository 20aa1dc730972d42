pub mod Agreeing
pub mod Following
pub mod FollowingGo
pub mod Follows
pub mod Forgotten
pub mod PlainSide
pub mod Reachable
pub mod Slices
