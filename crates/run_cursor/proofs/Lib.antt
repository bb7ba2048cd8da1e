mod Examples
pub mod CursorLemmas
pub mod FindLemmas
pub mod GivenLemmas
pub mod AheadLemmas
mod FullLemmas
mod RebuildLemmas
pub mod BelowLemmas
pub mod PartLemmas
