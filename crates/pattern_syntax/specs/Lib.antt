pub mod Read
pub mod Value
pub mod Pattern
