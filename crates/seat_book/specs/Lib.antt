pub mod Turns
pub mod State
pub mod Places
pub mod Seats
pub mod Laws
