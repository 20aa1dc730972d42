pub mod EqualRows
pub mod PlacesLemmas
pub mod ThingOrder
