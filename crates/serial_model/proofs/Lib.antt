pub mod ClipboardLemmas
pub mod JobLemmas
pub mod OrderLemmas
pub mod CarryingLemmas
pub mod FoldLemmas
pub mod StartLemmas
