pub mod Billionths
