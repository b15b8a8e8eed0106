-- What is written is what is listed
pub mod Listed
pub mod TextInFile
pub mod Written
pub mod ListingAll
pub mod FileRead
