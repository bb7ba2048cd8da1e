pub mod Reading
pub mod Ships
