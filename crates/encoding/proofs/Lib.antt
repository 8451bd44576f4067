pub mod Laid
pub mod Bytes
pub mod Stands
pub mod StateNumbers
pub mod Digits
