pub mod Census
pub mod CountLemmas
pub mod Tallies
pub mod Unique
