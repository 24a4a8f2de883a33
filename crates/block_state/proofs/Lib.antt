pub mod WritingLemmas
pub mod CutLemmas
pub mod ListingLemmas
pub mod SortingLemmas
pub mod ReadingLemmas
pub mod RotationLemmas
pub mod TurningLemmas
pub mod ApplyingLemmas
