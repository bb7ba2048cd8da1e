pub mod ShelfLemmas
pub mod CauseLemmas
pub mod AnswerLemmas
pub mod TrialLemmas
pub mod TellLemmas
