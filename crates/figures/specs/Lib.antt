pub mod Figures
pub mod Stretches
