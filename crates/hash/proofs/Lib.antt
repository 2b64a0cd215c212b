pub mod Prime
pub mod Appending
pub mod Zeros
