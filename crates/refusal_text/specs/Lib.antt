pub mod CString
pub mod Refusals
