pub mod Table
pub mod Held
pub mod Insert
pub mod Window
