-- the laws
pub mod Swap
pub mod Negation
pub mod Squared
pub mod Value
pub mod Fraction
pub mod Zero
pub mod Running
pub mod Whole
pub mod Nan
pub mod Order
-- what their proofs share
pub mod Sign
pub mod Sum
pub mod Smallest
