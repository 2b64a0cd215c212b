pub mod Chains
pub mod Auditing
