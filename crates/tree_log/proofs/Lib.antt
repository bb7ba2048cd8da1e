pub mod RestLemmas
pub mod LogLemmas
