pub mod Code
pub mod Ready
pub mod Rows
