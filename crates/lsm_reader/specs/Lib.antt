pub mod Walked
pub mod Opening
