pub mod Numbers
pub mod Made
pub mod Kept
pub mod Bounds
pub mod Laws
pub mod Booking
pub mod Lanes
