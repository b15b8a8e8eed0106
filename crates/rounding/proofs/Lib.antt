-- Laws for callers
pub mod RootLaw
pub mod NarrowLaw
pub mod NarrowBits
pub mod Round
pub mod Nearest
pub mod Determined
-- what they rest on
mod Compare
mod Closest
mod Patterns
mod Powers
mod WholeRootLaw
mod Digits
mod Widths
mod RootSpecial
mod TruncateLaw
