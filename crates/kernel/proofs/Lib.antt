pub mod Solved
pub mod Rows
pub mod Table
pub mod Checks
pub mod Undoing
pub mod Distances
