pub mod Write
pub mod Inner
pub mod Rewritten
pub mod WrittenExamples
