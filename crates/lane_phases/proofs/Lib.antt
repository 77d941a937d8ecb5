pub mod Words
pub mod Phases
