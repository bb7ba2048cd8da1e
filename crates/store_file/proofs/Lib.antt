pub mod LayoutLaws
pub mod LayoutLemmas
pub mod MakingLemmas
pub mod Examples
