pub mod Values
pub mod Inner
pub mod Answer
pub mod Examples
