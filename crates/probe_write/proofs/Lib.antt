-- Laws of the replies
pub mod WriteTexts
pub mod Determined
