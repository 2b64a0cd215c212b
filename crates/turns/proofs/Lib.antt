pub mod Stacks
pub mod Descending
pub mod Refusing
pub mod Turning
