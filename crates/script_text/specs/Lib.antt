pub mod Generated
pub mod Grammar
pub mod Pieces
pub mod Reading
pub mod Script
pub mod Summary
