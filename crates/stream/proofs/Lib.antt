pub mod Soundness
pub mod Joined
pub mod Numbers
pub mod Arrays
