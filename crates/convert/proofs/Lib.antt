-- Laws for callers
pub mod Answered
pub mod Counted
pub mod Shown
pub mod Unreached
pub mod Determined
