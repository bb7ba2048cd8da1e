mod MakingLemmas
mod BeginLemmas
mod CountLemmas
mod OpeningLemmas
mod SettledLemmas
mod TreeLemmas
mod CoreLemmas
