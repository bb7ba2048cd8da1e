pub mod FoldingLemmas
pub mod Examples
pub mod ListExamples
