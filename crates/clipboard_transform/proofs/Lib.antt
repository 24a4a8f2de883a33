mod BoundsLemmas
mod Corners
pub mod MapLemmas
pub mod PlacedLemmas
