pub mod Widened
pub mod Narrow
