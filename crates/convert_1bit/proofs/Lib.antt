-- Laws for callers
pub mod Units
pub mod Determined
