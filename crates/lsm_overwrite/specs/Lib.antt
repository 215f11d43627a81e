pub mod Blind
pub mod Exact
