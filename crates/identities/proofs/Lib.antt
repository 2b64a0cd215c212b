pub mod Constants
pub mod Negation
pub mod KindLaws
