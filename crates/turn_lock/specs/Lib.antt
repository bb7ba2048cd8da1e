pub mod Views
pub mod Rule
pub mod Plays
pub mod Callers
pub mod Tallies
pub mod Turns
pub mod Rests
