pub mod Output
pub mod Tree
pub mod Places
