pub mod Operands
pub mod Requesting
pub mod Codes
