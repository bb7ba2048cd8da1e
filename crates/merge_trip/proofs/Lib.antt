pub mod StoreLemmas
