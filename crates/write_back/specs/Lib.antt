pub mod Ids
pub mod Answers
pub mod Moved
pub mod Depth
