pub mod Orders
pub mod Identity
pub mod Views
pub mod Rule
pub mod Handles
