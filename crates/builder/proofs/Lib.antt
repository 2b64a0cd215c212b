pub mod Opened
pub mod Looking
