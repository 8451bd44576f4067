pub mod History
pub mod Log
pub mod Words
pub mod Sums
pub mod Demand3
pub mod Table
pub mod Reached
pub mod Shutdown
