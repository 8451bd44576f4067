pub mod Refusals
pub mod Frames
pub mod Strides
pub mod Addresses
pub mod Limits
pub mod Admission
pub mod Slots
pub mod Numbers
