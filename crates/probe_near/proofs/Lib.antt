-- Laws of the replies
pub mod Replies
pub mod Determined
