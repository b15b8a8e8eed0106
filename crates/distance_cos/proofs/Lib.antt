pub mod Cosines
pub mod Determined
