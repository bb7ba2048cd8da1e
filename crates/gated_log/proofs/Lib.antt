pub mod RecordLemmas
pub mod LaneLaws
pub mod LaneLemmas
pub mod AppendLemmas
pub mod BlockLemmas
pub mod OneList
pub mod ReplayLemmas
pub mod Examples
