pub mod ProposalLemmas
pub mod GrowthLemmas
pub mod Differences
pub mod Renumbering
pub mod Finding
pub mod WritingLemmas
pub mod EntityLemmas
pub mod RestoringLemmas
