pub mod Value
pub mod Arikan
pub mod Path
