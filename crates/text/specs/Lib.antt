pub mod Memory
pub mod Making
pub mod Reading
pub mod Examples
pub mod Calling
