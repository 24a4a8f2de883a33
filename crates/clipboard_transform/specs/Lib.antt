pub mod Reach
pub mod Bounds
