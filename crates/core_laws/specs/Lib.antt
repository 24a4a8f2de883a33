pub mod ChunkState
pub mod WriteJob
pub mod Core
pub mod Serial
pub mod Settled
pub mod Progress
pub mod Exchange
pub mod NextJob
