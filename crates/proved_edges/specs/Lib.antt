pub mod Hosts
pub mod Edges
