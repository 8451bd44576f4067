pub mod Refusals
pub mod Opened
pub mod Open
