pub mod Applied
pub mod Rewriting
