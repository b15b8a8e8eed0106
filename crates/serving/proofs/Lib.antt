-- That the contracts of the loops determine what they answer
pub mod Determined
