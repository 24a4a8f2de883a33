pub mod ContentRun
pub mod Changes
pub mod Runs
pub mod Kept
pub mod Cells
pub mod Sorted
pub mod Part
pub mod Forms
