pub mod Head
pub mod Sizes
pub mod Matches
pub mod ReadBack
pub mod RoundTrip
pub mod Stored
pub mod Laws
