pub mod Kinds
pub mod Modes
pub mod Examples
