-- Laws for the line functions of the programs
pub mod Digits
pub mod Decimal
pub mod Writing
pub mod Pairs
pub mod Parting
pub mod Fields
pub mod Determined
