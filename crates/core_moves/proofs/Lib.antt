mod AffectLemmas
pub mod WriteLemmas
