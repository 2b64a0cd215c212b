pub mod Limbs
pub mod Middles
