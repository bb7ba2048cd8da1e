pub mod Pacing
pub mod Opening
pub mod Events
pub mod Turns
