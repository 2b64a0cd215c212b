pub mod Digits
pub mod Whole
pub mod Constants
pub mod Emitting
pub mod Steps
pub mod Scans
pub mod Compiling
