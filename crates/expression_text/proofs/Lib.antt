pub mod Bracketing
pub mod Numerals
pub mod Digits
pub mod Listing
pub mod Forms
pub mod Blanks
pub mod Texts
