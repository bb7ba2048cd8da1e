pub mod Terms
mod Noted
mod Patches
mod Picking
mod Pieces
mod Results
mod ShelfLemmas
mod Steps
mod Told
pub mod PlaceLemmas
pub mod EventLemmas
pub mod CallLemmas
