pub mod Records
pub mod Lane
pub mod Lanes
pub mod Replay
