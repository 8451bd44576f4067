pub mod Accepting
pub mod Failing
pub mod Replies
