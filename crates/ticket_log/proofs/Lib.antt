pub mod Prefixes
pub mod LegalOrders
pub mod Steps
pub mod Appending
