pub mod Numbers
pub mod Lines
pub mod Code
pub mod Reading
pub mod Same
pub mod Tallies
