pub mod Filling
pub mod Turn
pub mod Levels
