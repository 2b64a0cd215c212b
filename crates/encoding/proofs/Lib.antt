pub mod CodeTable
pub mod Decoding
pub mod EncodedCalls
pub mod FirstCalls
pub mod HeaderCalls
pub mod SpelledBytes
