pub mod Entry
pub mod Sound
pub mod Buckets
