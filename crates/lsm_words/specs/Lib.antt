pub mod Calibration
pub mod Description
pub mod Answers
