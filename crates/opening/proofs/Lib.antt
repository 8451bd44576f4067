-- The laws of opening that other crates cite. `Refusals`: what `opens` tells. `Fresh`: the opened record, and the one that comes with a refusal.
-- `Block`: the opened block. `Outcome`: when opening answers Done.
pub mod Refusals
pub mod Fresh
pub mod Block
pub mod Outcome
