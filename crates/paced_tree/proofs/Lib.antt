pub mod Terms
pub mod Books
pub mod Paces
pub mod Quanta
pub mod Moves
pub mod Admissions
pub mod Payments
pub mod Turns
pub mod Steps
pub mod Made
pub mod Promises
pub mod LaneLemmas
pub mod BookLaws
pub mod Work
mod Examples
