pub mod Calls
pub mod NameCalls
pub mod Forms
pub mod SheetCalls
pub mod ListingCalls
