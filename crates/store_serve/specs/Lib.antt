pub mod Room
pub mod Session
pub mod Taken
pub mod Told
