pub mod Kinds
pub mod Spelling
pub mod Reading
pub mod Room
pub mod Taken
pub mod WellFormed
pub mod Written
