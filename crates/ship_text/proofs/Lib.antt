pub mod ReadingLaws
pub mod ShipLemmas
