-- What is written is what is printed
pub mod Written
