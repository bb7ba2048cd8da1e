pub mod RunnableLemmas
mod FreshLemmas
mod TrialLemmas
