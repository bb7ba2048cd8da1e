pub mod Lane
pub mod Pages
pub mod Damage
pub mod Walk
pub mod Reading
pub mod Report
pub mod First
