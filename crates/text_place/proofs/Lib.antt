pub mod Bytes
pub mod Reaching
pub mod Texts
