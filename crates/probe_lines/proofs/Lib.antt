-- Laws of the replies
pub mod Fields
pub mod Determined
