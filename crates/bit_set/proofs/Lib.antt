pub mod BitLemmas
pub mod Examples
