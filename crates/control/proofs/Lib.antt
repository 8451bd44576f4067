pub mod Gated
pub mod Unmoved
pub mod InFlight
pub mod Stopped
