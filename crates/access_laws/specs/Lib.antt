pub mod Locality
pub mod Needs
pub mod OrderFree
