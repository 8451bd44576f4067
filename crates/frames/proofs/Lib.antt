pub mod Packets
pub mod Refused
pub mod Before
pub mod Edges
