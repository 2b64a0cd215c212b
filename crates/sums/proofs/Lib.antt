pub mod Halving
pub mod Parts
pub mod Resuming
pub mod Splitting
pub mod Adding
pub mod Joining
pub mod Summing
