pub mod Reading
pub mod Carrying
pub mod Deciding
pub mod Fired
