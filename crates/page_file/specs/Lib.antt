pub mod Entry
pub mod Page
pub mod File
pub mod Component
