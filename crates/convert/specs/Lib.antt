pub mod Convert
pub mod Original
