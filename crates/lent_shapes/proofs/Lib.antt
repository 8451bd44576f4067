pub mod Types
pub mod Bodies
pub mod LentWalks
pub mod LocalWalks
pub mod Record
pub mod Contracts
pub mod Shapes
