pub mod Existing
pub mod Paired
pub mod Determined
