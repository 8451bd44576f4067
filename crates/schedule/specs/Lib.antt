pub mod Speed
pub mod Interval
pub mod Derive
pub mod Product
pub mod Endpoint
