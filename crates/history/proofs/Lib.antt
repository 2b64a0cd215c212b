pub mod Keeping
pub mod Turns
pub mod Replaying
