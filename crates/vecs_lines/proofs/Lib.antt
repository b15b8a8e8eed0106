-- Laws of a text cut into vectors, and of its listing
pub mod Starting
pub mod Cutting
pub mod Listing
pub mod Determined
