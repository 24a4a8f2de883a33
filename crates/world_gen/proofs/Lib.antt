pub mod LineLemmas
pub mod GroundLemmas
pub mod ScriptLemmas
pub mod LimitLemmas
pub mod ColumnLemmas
pub mod SessionLemmas
pub mod ApartLemmas
