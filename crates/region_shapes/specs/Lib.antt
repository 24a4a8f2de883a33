pub mod Interval
pub mod Rows
pub mod Spans
pub mod SpansLeft
pub mod RowSpans
pub mod Extents
pub mod Chunks
