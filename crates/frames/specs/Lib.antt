pub mod Packets
pub mod Before
pub mod Refused
pub mod Edges
