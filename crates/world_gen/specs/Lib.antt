pub mod Drill
pub mod Ground
