pub mod Tests
pub mod Layout
pub mod Opening
pub mod Places
pub mod Numbers
