pub mod Clamping
pub mod Placing
pub mod Calls
pub mod Onward
pub mod Whole
