-- Words of the contracts of helpers, and a function to compute with: no contract of an entry point names them.
pub mod Pick
pub mod Digits
pub mod Parts
