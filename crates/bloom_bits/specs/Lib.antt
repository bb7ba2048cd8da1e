pub mod Hash
pub mod BitSet
pub mod Filter
pub mod Fences
pub mod Guides
pub mod Parts
