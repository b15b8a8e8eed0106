-- Laws for callers
pub mod Numbers
pub mod Put
pub mod Floats
pub mod Determined
