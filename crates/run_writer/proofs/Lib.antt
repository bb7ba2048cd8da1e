mod BufferLemmas
mod RunLemmas
mod WriterLemmas
mod GuideLemmas
pub mod GrowthLemmas
pub mod RegionLemmas
mod Examples
pub mod ClosedLemmas
