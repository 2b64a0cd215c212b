pub mod Kinds
pub mod Opening
pub mod Reading
pub mod SheetRuns
pub mod TextCalls
pub mod Writing
