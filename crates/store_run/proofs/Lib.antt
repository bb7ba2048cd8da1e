pub mod CauseLemmas
pub mod CrashLemmas
pub mod FaultLemmas
pub mod HeadlineLemmas
pub mod RanLemmas
pub mod RunLemmas
pub mod SoloLemmas
