pub mod Plain
pub mod Called
