pub mod Pruning
pub mod Calling
