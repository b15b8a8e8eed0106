mod Tested
pub mod Determined
