pub mod Opened
pub mod AfterC
pub mod Demand3
pub mod Shutdown
