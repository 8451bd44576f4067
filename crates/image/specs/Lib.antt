pub mod Parts
pub mod Image
pub mod Reading
