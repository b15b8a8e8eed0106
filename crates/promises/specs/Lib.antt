pub mod Determined
pub mod Onto
pub mod Puts
