-- Laws of the replies about files of vectors
pub mod FileTexts
pub mod Determined
