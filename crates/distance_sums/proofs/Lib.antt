pub mod Sums
pub mod Counts
pub mod Totalled
pub mod Exact
pub mod EitherZero
pub mod Determined
