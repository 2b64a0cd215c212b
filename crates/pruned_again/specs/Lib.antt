pub mod Plain
pub mod Stored
