pub mod Pace
pub mod Steps
pub mod Kept
pub mod Laws
pub mod Counts
pub mod Spent
pub mod Fronts
pub mod Ends
