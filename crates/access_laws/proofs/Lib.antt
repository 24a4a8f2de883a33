pub mod Chunks
pub mod Writes
pub mod PatternNeeds
pub mod Depends
pub mod Sessions
pub mod Stays
pub mod Agreement
pub mod Still
pub mod SameTurns
pub mod Results
pub mod Parts
pub mod ChunkEffects
pub mod Copies
pub mod Scripts
pub mod StillScripts
pub mod Outcomes
mod FreeExamples
