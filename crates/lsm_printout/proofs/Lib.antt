pub mod Puts
pub mod Numbers
pub mod TextLines
pub mod Notes
pub mod Names
pub mod Whole
