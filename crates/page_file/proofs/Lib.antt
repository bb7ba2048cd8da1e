mod Examples
pub mod EntryLemmas
pub mod PageLemmas
pub mod ComponentLemmas
pub mod OrderLemmas
