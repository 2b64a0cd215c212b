pub mod Searching
pub mod KeyParts
pub mod GreatestChild
pub mod Keys
pub mod Answers
