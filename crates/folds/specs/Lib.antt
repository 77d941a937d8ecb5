pub mod Range
pub mod Rows
