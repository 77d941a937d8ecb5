pub mod Index
pub mod Best
pub mod Following
pub mod Few
pub mod Bounds
pub mod Rows
pub mod Gains
