pub mod Number
pub mod Errno
