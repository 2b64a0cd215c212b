pub mod Memory
pub mod Calling
