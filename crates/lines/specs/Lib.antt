pub mod Text
pub mod Hex
pub mod Decimal
pub mod Parts
pub mod Fields
pub mod Printed
pub mod Examples
