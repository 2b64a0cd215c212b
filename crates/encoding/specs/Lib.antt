pub mod Encoding
pub mod Codes
pub mod Finding
pub mod Headers
pub mod Spelling
