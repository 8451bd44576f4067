pub mod Told
pub mod FromC
pub mod Calls
