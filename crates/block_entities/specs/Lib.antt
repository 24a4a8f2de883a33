pub mod Entry
pub mod Gathering
pub mod FileEntities
pub mod Spreading
