-- Laws for callers
pub mod Pieces
pub mod Places
pub mod Regions
pub mod Spread
pub mod Packed
pub mod Patterns
pub mod Ranged
pub mod RangeSoFar
pub mod Same
pub mod Through
pub mod Lengths
pub mod Determined
