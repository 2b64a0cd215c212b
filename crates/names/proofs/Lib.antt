pub mod Finding
pub mod Listing
pub mod Storing
pub mod Calling
pub mod Determined
pub mod Clauses
pub mod Modelled
