pub mod Proposals
pub mod Canvas
pub mod Changes
pub mod Restoring
pub mod Numbering
pub mod Writing
pub mod Placing
