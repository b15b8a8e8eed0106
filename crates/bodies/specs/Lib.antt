pub mod Elements
pub mod Scale
pub mod Entries
pub mod Merged
pub mod Inner
