pub mod Terms
mod CountLemmas
mod ReleasedTags
mod KeptMerges
mod StayLemmas
mod FinishedLemmas
mod QuantumLemmas
pub mod CoverLemmas
pub mod ReleasedLemmas
mod FindLemmas
mod ToldLemmas
pub mod GuideLemmas
pub mod BesideLemmas
mod HoldLemmas
mod PartLemmas
mod SourceLemmas
mod NamedPins
mod FloorLemmas
pub mod QuantaLemmas
mod InstallLemmas
mod CommitLemmas
mod SwapRegions
mod PinLemmas
mod CatalogLemmas
pub mod FrontLemmas
mod NamedLemmas
mod SwapLemmas
mod NextTrees
mod Swapped
pub mod ClaimLemmas
