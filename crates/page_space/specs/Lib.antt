pub mod PageSet
pub mod Space
