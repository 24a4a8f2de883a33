pub mod Digits
pub mod Pieces
pub mod Cursor
pub mod Verdict
pub mod Part
