pub mod SpellingLemmas
pub mod Examples
