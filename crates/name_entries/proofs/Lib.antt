pub mod Words
pub mod Entries
pub mod Bucketing
pub mod Copying
