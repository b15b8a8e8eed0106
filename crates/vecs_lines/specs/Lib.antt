pub mod Line
pub mod Inner
