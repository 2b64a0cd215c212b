pub mod Progress
pub mod Stopping
