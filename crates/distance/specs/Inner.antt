-- Words of the contracts of helpers: no contract of an entry point names them.
pub mod Existing
