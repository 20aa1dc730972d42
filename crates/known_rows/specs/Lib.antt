pub mod HavePlaces
pub mod Holdings
pub mod InOrder
pub mod InTurn
pub mod Known
pub mod OnlyPlaced
pub mod PlaceLaws
pub mod Places
