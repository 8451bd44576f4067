pub mod Underruns
