mod Places
pub mod Numbering
pub mod FirstAppearance
