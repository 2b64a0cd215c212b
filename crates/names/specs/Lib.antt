pub mod Memory
pub mod Calls
