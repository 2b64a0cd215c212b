pub mod Refusals
pub mod Stores
pub mod Sheets
pub mod Listings
pub mod Lists
