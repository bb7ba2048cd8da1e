pub mod ChainLemmas
pub mod NumberLemmas
pub mod CompareLemmas
pub mod StoreLemmas
pub mod SetLemmas
