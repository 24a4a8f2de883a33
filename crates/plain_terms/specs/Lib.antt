pub mod Shown
pub mod Places
pub mod Probes
pub mod Numbering
pub mod Copies
pub mod Clipboards
pub mod Choice
