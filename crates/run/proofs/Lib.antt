pub mod Phases
pub mod Symbols
