pub mod LimbLaws
pub mod Scaling
pub mod Appending
pub mod Multiplying
pub mod Middles
pub mod Bounds
pub mod Bisecting
pub mod Comparing
