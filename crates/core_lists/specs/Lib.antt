pub mod Standing
pub mod Shown
pub mod Admissions
pub mod Images
pub mod Steps
pub mod Going
