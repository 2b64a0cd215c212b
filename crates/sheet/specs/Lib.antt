pub mod Running
pub mod Sheets
