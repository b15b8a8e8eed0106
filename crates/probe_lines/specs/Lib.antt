pub mod Limits
pub mod Line
pub mod Examples
