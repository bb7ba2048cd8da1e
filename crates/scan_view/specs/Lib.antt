pub mod Hold
pub mod Holds
pub mod Left
pub mod Pins
pub mod Scan
pub mod Splice
pub mod Told
