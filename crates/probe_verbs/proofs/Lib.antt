-- Laws of long words, and that the contract determines its answer
pub mod Letters
pub mod Determined
