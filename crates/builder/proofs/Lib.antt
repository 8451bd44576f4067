-- `Outcome`: build answers a schedule exactly where it opened the stream.
pub mod Outcome
