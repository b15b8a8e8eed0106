-- Laws of blobs that are written, and of those that are read and written again
pub mod Appended
pub mod Determined
pub mod Rewritten
pub mod RewrittenModes
pub mod Tails
pub mod Unchanged
pub mod WriteDetails
pub mod Written
