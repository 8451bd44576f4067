-- The laws that this crate's proofs and those of the crates over it cite. `Store`: storing into a block and reading parts back. `Fields`: little-endian numbers there.
-- `Signs`: signed numbers in 32 bits. `Headers`, `Descriptors`: a header or a descriptor that was stored is read back; a store apart from a header leaves it.
pub mod Store
pub mod Fields
pub mod Signs
pub mod Headers
pub mod Descriptors
