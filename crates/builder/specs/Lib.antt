pub mod Fields
pub mod Build
