pub mod Slots
pub mod Counts
pub mod Masks
pub mod Parts
pub mod Sound
pub mod Tests
pub mod Moves
