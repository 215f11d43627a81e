pub mod Calibrated
