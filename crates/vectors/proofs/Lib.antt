pub mod Digits
pub mod Runs
pub mod Left
pub mod Pairs
mod Samples
