pub mod Halves
pub mod Pattern
pub mod Double
pub mod Product
