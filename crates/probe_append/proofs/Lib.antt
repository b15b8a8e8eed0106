-- Laws of the replies that append
pub mod AppendTexts
pub mod Determined
