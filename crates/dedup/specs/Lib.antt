pub mod Probe
pub mod Intern
