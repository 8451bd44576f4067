pub mod Sound
pub mod Parts
pub mod Numbers
