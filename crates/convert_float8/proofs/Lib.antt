-- Laws for callers
pub mod Scaled
pub mod Determined
