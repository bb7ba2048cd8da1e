pub mod Terms
mod LaneLemmas
mod CallsLemmas
mod PagesLemmas
mod NamedLemmas
mod DamageLemmas
mod WalkLemmas
mod NoteLemmas
mod AgainLemmas
mod MapLemmas
mod ComponentsLemmas
mod FaultLemmas
mod LanesLemmas
mod ReadingLemmas
mod ReportLemmas
pub mod FirstLemmas
