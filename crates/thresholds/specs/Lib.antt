pub mod Nearest
pub mod Thresholds
pub mod Hundredths
