pub mod NumberLemmas
pub mod ProgramLemmas
pub mod WordLemmas
pub mod WordExamples
pub mod RangeLemmas
pub mod MakeLemmas
