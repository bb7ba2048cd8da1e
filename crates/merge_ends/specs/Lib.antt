pub mod Input
pub mod Output
pub mod Quantum
pub mod Newer
pub mod Progress
pub mod Merge
pub mod Closed
