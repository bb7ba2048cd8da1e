pub mod Terms
pub mod PlaceLemmas
pub mod WordLemmas
pub mod KeepLemmas
