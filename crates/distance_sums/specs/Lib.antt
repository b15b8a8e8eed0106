pub mod Extremes
pub mod Dense
pub mod Sparse
pub mod OneBit
pub mod Float8
pub mod Values
pub mod Inner
pub mod Examples
