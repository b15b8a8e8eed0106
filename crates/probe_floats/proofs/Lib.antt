-- Laws of the replies about floats
pub mod Fields
pub mod Determined
