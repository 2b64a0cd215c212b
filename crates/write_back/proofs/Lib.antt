pub mod Chaining
pub mod Stages
pub mod Moving
pub mod Staying
pub mod Depth
