pub mod Values
pub mod Code
