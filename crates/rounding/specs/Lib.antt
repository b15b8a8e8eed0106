pub mod Nearest
pub mod Narrow
pub mod Root
pub mod Truncate
pub mod Inner
pub mod Examples
pub mod TurnsExamples
