pub mod Words
pub mod Codes
