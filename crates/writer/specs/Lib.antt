pub mod Answers
pub mod Expression
pub mod Writing
pub mod Placing
pub mod Sweeping
