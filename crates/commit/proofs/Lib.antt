pub mod Ends
pub mod Moves
