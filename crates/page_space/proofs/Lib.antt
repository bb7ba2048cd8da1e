pub mod SpaceLemmas
pub mod SizeLemmas
pub mod FreeLemmas
pub mod Examples
