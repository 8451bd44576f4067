pub mod Laws
pub mod Masks
pub mod Operations
pub mod Lists
