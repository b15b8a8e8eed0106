pub mod Vecs
pub mod Cases
pub mod Append
pub mod Reading
pub mod VecsExamples
