pub mod Memory
pub mod Rebuild
