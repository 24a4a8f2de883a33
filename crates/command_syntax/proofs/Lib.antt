pub mod WordCounts
pub mod Positions
pub mod Terms
pub mod Quoting
pub mod ShortWords
pub mod Within
