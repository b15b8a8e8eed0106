-- The laws of what the contracts of the functions on bytes name.
pub mod Determined
