pub mod Kinds
pub mod KindLemmas
pub mod Records
pub mod Folding
pub mod Entries
pub mod Replays
pub mod Several
