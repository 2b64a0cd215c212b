pub mod Numbers
pub mod Words
pub mod First
pub mod Line
pub mod Listing
