pub mod Words
pub mod Readers
pub mod Numbers
pub mod Scanning
pub mod Compiling
