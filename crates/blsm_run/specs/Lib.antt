pub mod Outcome
pub mod Outside
pub mod Reading
pub mod Stores
pub mod Cause
pub mod Answer
