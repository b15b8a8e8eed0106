pub mod Limits
pub mod Blobs
pub mod Rooms
