-- Laws for callers
pub mod Stored
pub mod Determined
