pub mod Nearer
pub mod Examples
