pub mod Bytes
pub mod Signed
pub mod Header
pub mod Descriptor
