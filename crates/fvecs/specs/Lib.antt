pub mod Listed
pub mod ListedExamples
pub mod Inner
