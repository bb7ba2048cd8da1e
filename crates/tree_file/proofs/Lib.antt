pub mod Terms
pub mod HoldsLemmas
pub mod StandLemmas
pub mod OneTree
pub mod ListLemmas
pub mod MapLemmas
pub mod NextLemmas
mod Examples
