pub mod Read
pub mod Leaf
pub mod Term
pub mod Mask
