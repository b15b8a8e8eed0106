-- Laws for callers
pub mod SpreadLoop
pub mod Steps
pub mod Determined
