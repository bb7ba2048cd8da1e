pub mod Settling
pub mod Counting
