pub mod Calibrations
pub mod Descriptions
pub mod Back
pub mod Opened
pub mod Answered
