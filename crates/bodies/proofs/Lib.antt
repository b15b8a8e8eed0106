-- Laws for callers
pub mod Elements
pub mod Lengths
pub mod Merging
pub mod Walked
pub mod Determined
