pub mod Fields
pub mod Exported
