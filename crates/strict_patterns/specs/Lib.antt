pub mod Strictly
