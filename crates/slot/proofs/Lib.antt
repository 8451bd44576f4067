-- The laws that this crate's proofs and those of the crates over it cite. `PacketLengths`: packet lengths, their sums and their bounds. `Descriptors`: descriptors stored one
-- after the other. `Commits`: a slot's commit and its silence from their parts.
pub mod PacketLengths
pub mod Descriptors
pub mod Commits
