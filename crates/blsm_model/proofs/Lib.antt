pub mod ExampleWords
mod ValueExamples
mod TailExamples
mod HoldExamples
mod RefusalExamples
mod ConditionExamples
mod PrintedExamples
mod SizeExamples
mod ImageExamples
mod ScriptExamples
pub mod TailLemmas
pub mod ValueLemmas
pub mod OpLemmas
pub mod LookLemmas
pub mod HistoryLemmas
pub mod HoldLemmas
pub mod LegalLemmas
pub mod PlainLemmas
pub mod PackLemmas
pub mod ScriptLemmas
pub mod RowLemmas
pub mod GeometryLemmas
pub mod AnnalsLemmas
