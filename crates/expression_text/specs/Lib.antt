pub mod Numeral
pub mod Written
pub mod Proper
pub mod Listed
