pub mod BlocksLemmas
pub mod ProbeLemmas
pub mod MapLemmas
pub mod FarLemmas
pub mod MaskLemmas
pub mod CopyLemmas
pub mod TileLemmas
pub mod ChoiceLemmas
