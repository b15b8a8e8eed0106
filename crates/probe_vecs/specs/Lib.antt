pub mod Files
pub mod Inner
