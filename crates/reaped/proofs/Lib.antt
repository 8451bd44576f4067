pub mod Addresses
pub mod Returns
pub mod Replies
