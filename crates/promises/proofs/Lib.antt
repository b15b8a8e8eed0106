-- Laws of what writers leave
pub mod Onto
pub mod Puts
