pub mod Key
pub mod Layout
pub mod Node
pub mod Nodes
