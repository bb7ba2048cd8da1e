pub mod Buffer
pub mod Run
pub mod Writer
pub mod Closed
