-- Laws of views
pub mod Bodies
pub mod Determined
