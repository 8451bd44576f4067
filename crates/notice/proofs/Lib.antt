-- The laws that this crate's proofs and those of the crates over it cite. `Packets`: descriptors one after the other, read from the block or from a part of it.
-- `Offsets`: the slot that an offset names.
pub mod Packets
pub mod Offsets
