pub mod Values
pub mod Folding
pub mod Exactly
