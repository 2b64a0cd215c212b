pub mod Parts
pub mod Operands
pub mod Bodies
pub mod Whole
