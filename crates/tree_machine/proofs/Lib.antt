pub mod Terms
mod ExampleWords
mod RunExamples
mod FaultExamples
mod EdgeExamples
mod ConditionExamples
pub mod FoldLemmas
pub mod CursorLemmas
pub mod MergeLemmas
pub mod LayerLemmas
pub mod WriteLemmas
pub mod WeightLemmas
pub mod CarryLemmas
pub mod MapLemmas
pub mod ToldLemmas
pub mod StandLemmas
pub mod LookLemmas
pub mod AdmitLemmas
pub mod TurnLemmas
pub mod StepLemmas
pub mod PlayLemmas
pub mod WaitLemmas
pub mod QuantumLemmas
pub mod LightLemmas
pub mod NumberLemmas
pub mod FrameLemmas
pub mod GrowLemmas
pub mod EffectLemmas
pub mod SettledLemmas
pub mod TellLemmas
pub mod CommitLemmas
