pub mod Chosen
pub mod OneStep
pub mod Joins
