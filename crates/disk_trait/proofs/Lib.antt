pub mod MomentLemmas
pub mod EffectLemmas
pub mod PartLemmas
pub mod RegionLemmas
pub mod ReadLemmas
