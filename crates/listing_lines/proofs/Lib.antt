pub mod Flags
pub mod Spelling
pub mod Lines
pub mod Asking
pub mod Gathering
