-- Words of the contracts of helpers: no contract of an entry point names them.
pub mod Stream
pub mod Reading
pub mod Serving
pub mod Rooms
