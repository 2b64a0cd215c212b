pub mod Checking
pub mod Histories
pub mod Instance
