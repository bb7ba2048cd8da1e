pub mod Output
pub mod Walk
pub mod Noted
