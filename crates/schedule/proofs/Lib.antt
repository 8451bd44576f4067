pub mod Bounds
pub mod Intervals
