pub mod Line
pub mod Outcome
pub mod Answers
pub mod Filling
