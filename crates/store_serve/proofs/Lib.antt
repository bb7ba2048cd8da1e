pub mod NextLemmas
pub mod RoomLemmas
pub mod RunsLemmas
pub mod SessionLemmas
pub mod TakenLemmas
pub mod ToldLemmas
pub mod WholeLemmas
