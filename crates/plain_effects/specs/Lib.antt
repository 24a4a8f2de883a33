pub mod Jobs
pub mod Sources
pub mod Sections
