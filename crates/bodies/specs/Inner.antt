-- Words of the contracts of helpers, and the walk that a law compares the merge with: no contract of an entry point names them.
pub mod Turns
pub mod Walk
