pub mod Stretch
pub mod Taken
pub mod Steps
pub mod OneStep
