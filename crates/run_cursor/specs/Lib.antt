pub mod Cursor
pub mod Given
pub mod Part
pub mod Walk
pub mod Lookup
pub mod Below
pub mod Rebuild
