pub mod FilterLemmas
pub mod FenceLemmas
pub mod PartLemmas
pub mod Examples
