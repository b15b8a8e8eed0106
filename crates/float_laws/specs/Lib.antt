pub mod Zero
pub mod Running
pub mod Examples
