pub mod AreaLemmas
pub mod ColumnLemmas
pub mod ChunkLemmas
pub mod WorldLemmas
pub mod PatternLemmas
pub mod Examples
pub mod PropertyLemmas
pub mod PropertyOrder
pub mod StateTextLemmas
pub mod TurnLemmas
pub mod PositionTurns
pub mod StateTurns
pub mod ClipboardLemmas
mod StateExamples
mod TurnExamples
mod PatternExamples
pub mod RegionLemmas
mod RegionExamples
pub mod DrawLemmas
mod DrawExamples
pub mod MaskLemmas
mod MaskExamples
