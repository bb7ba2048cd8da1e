pub mod Moves
pub mod Resumed
pub mod Lefts
pub mod Readings
pub mod Payments
pub mod Fuel
pub mod Turns
pub mod Since
pub mod Cases
pub mod Going
pub mod Runs
mod Examples
