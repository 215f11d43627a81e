pub mod Limbs
pub mod Powers
pub mod Fractions
pub mod Exponents
