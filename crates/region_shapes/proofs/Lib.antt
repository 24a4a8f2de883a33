mod Squares
pub mod ExtentLemmas
mod RowLemmas
mod RunLemmas
mod SpanLemmas
mod EndLemmas
mod BoxLemmas
mod BoundsLemmas
mod ChunkLemmas
pub mod RiseLemmas
