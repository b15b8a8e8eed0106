-- That the public contracts determine their outcomes
pub mod Determined
