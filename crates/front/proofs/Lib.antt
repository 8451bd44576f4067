pub mod Again
pub mod Taking
